mod AssertFacts
mod Walked
mod Parts
