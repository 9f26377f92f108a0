mod Marks
mod Following
mod AllFields
mod Spelled
mod Lettered
mod Again
