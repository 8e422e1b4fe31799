pub mod WalkSteps
pub mod ReplaySteps
pub mod ListSteps
pub mod OpenSteps
pub mod FaultSteps
