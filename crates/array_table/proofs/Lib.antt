pub mod FirstInputs
