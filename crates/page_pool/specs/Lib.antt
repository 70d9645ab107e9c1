pub mod Pool
pub mod PooledFrames
pub mod Lending
pub use Pool.{full_page, frame_at, IsHeld, spare_of, TakesFrame}
unfoldable pub use Pool.{empty_frame}
pub use PooledFrames.{held_in, places_of, IsFree, AreFramesStored}
pub use declared.frame.Frame.{Frame}
pub use declared.pool.PooledFrame.{PooledFrame}
