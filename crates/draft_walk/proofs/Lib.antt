mod Events
mod Laws
mod Known
mod Plain
mod Heard
