pub mod NoteTrees
