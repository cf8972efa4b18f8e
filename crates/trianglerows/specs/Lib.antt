pub mod TrianglesUndone
