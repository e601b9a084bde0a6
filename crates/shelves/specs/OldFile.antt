-- FORMAT: Old form. A length of four bytes and a shortcut, again and again to the end of the file.
use Rattle.std.specs.Prelude.{ℕ, zero, suc, ◌+◌, List, [], ◌∷◌, ◌++◌, Bool, ◌&&◌, ◌||◌, cond, length, take, drop, leb, eqb}
use Rattle.octets.specs.Numbers.{u32_at, little}

-- no length is cut or passes the end, and there are k entries at most
unfoldable pub old_fits : ℕ → List ℕ → Bool
old_fits zero s = eqb (length s) 0
old_fits (suc k) s =
    let n = u32_at s 0 in
    eqb (length s) 0 || (leb 4 (length s) && (leb (4 + n) (length s) && old_fits k (drop (4 + n) s)))

unfoldable pub old_entries : ℕ → List ℕ → List (List ℕ)
old_entries zero s = []
old_entries (suc k) s =
    let n = u32_at s 0 in
    cond (eqb (length s) 0) [] (take n (drop 4 s) ∷ old_entries k (drop (4 + n) s))

unfoldable pub old_bytes : List (List ℕ) → List ℕ
old_bytes [] = []
old_bytes (e ∷ es) = little 4 (length e) ++ (e ++ old_bytes es)
