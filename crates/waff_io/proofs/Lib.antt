mod KnownBytesLemmas
mod Pieces
mod SplitLemmas
