pub mod UnitMade
pub mod WellFormedDecks
pub mod HeadedUnits
