pub mod Steps
pub mod FirstCommons
pub mod FoundInverses
pub mod NotePlaces
pub mod ComparedNotes
