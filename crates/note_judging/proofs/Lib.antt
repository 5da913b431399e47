mod Learning
mod Judged
