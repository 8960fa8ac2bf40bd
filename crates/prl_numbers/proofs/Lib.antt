pub mod LeastMultiples
mod Rises
