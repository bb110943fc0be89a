pub mod WordLaws
pub mod LevelLaws
pub mod CountLaws
pub mod TakenLaws
