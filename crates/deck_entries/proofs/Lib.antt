pub mod NotePlaces
pub mod EntriesRead
pub mod DeckOrFault
