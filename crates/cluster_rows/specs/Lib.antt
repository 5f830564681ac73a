pub mod Talk
pub mod SchedWorlds
pub mod WorkerTalk
pub mod SmallWorlds
