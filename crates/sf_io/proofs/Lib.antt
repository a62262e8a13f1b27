pub mod PullLemmas
pub mod PushLemmas
