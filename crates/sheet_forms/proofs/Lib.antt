pub mod Rooms
pub mod Results
pub mod Answers
pub mod Laws
pub mod Taken
