-- The header's bytes in groups.
use Rattle.std.specs.Prelude.{List, [], ◌∷◌, ◌++◌, ℕ}
use Rattle.octets.specs.Numbers.{little}
use Rattle.format.specs.declared.Header.{Header}
use Rattle.format.specs.Header.{class_identifier}
use Rattle.format.specs.Writing.{end_to_end, bits}

-- the header's size and the class identifier
abbrev pub magic_bytes : List ℕ
magic_bytes = little 4 0x4C ++ class_identifier

-- the flags, the attributes and the three times
unfoldable pub mark_bytes : Header → List ℕ
mark_bytes h =
    end_to_end
    (little 4 h.flags ∷ little 4 h.attributes ∷ little 8 h.creation ∷ little 8 h.access ∷ little 8 h.write ∷ [])

-- from the file's size to the ten zero bytes
unfoldable pub view_bytes : Header → List ℕ
view_bytes h =
    end_to_end
    (little 4 h.file_size
    ∷ little 4 (bits h.icon_index)
    ∷ little 4 h.command
    ∷ little 2 h.hotkey
    ∷ little 10 0
    ∷ [])
