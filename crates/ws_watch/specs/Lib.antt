pub mod Handshake
pub mod Messages
pub mod Laws
pub mod Clients
pub use Rattle.websocket.specs.Connection
pub use Rattle.websocket.specs.Content
