mod Fronts
mod Counting
mod Judged
