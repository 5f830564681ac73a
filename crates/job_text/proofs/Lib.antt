pub mod Building
pub mod FileOrder
pub mod FileTokens
pub mod FileNames
pub mod Files
pub mod JobParts
pub mod CursorSteps
