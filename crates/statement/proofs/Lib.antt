mod Pieces
mod Printed
