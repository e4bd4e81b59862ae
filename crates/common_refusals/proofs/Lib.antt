pub mod FirstTests
