mod Remainders
mod PowerSteps
mod EuclidSteps
mod BarrettBounds
