pub mod KeptPairs
pub mod Vacant
pub mod Made
pub mod Receipts
pub mod ReceiptSteps
pub mod ReceiptCalls
pub mod Behind
pub mod Laws
