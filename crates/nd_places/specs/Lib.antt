pub mod Forms
pub mod Left
pub mod Near
