mod Rows
mod Numbers
mod Samples
