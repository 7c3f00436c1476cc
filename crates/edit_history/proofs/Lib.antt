pub mod HistoryLists
pub mod HistoryOrder
pub mod HistoryChain
pub mod HistorySteps
