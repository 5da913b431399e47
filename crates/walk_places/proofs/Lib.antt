pub mod ShapeRows
