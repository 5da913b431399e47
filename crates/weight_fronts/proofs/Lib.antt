mod Passing
mod Marks
mod Starts
