mod Weighed
mod Undone
