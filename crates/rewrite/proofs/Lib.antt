mod Again
mod Contact
