pub mod HalfAt
