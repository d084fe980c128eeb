pub mod InputLemmas
pub mod SocketLemmas
