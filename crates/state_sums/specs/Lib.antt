pub mod Networks
pub mod StateSums
pub mod LocalSums
pub mod Laws
