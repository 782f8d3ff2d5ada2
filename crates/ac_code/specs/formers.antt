-- The formers of types that the code adds, by module.
pub mod shared
