mod Units
mod Kept
mod Placed
