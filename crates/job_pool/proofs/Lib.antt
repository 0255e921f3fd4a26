pub mod Pooled
pub mod Certificate
