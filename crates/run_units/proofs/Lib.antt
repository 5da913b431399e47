mod Commoned
mod Whole
mod Coded
