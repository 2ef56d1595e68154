mod FramesLemmas
