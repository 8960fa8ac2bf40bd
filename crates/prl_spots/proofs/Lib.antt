mod Here
mod Two
mod Named
