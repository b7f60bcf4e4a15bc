pub mod LeastCut
