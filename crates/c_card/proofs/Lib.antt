pub mod Faces
mod Card
