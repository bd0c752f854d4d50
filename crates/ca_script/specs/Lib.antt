pub mod Grammar
pub mod Lines
pub mod RecordFiles
pub mod Report
