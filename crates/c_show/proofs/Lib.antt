mod TextsRead
pub mod Example
