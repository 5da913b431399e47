pub mod OfEvents
