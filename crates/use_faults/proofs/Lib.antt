pub mod RoleFacts
pub mod UseScanned
pub mod UseSteps
pub mod CarriedLabels
pub mod OnceNames
