-- FORMAT: Bytes and numbers, Buffers. A part of a list of bytes, and a lent buffer after bytes were put into it.
use Rattle.std.specs.Prelude.{ℕ, ◌+◌, List, ◌++◌, length, take, drop}

-- the buffer d with the bytes w from the place i on, and all else as it was
unfoldable pub put : List ℕ → ℕ → List ℕ → List ℕ
put d i w = take i d ++ (w ++ drop (i + length w) d)
