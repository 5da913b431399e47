pub mod DecksMade
pub mod OneJudgement
pub mod NoneBoth
pub mod OneFault
