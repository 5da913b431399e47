mod Stood
mod Joined
