mod Behind
mod Standing
mod Fitting
mod Pushing
