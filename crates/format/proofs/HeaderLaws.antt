-- The laws of the header.
use mathlib.Core.Path.{◌≡◌, refl, sym, subst}
use mathlib.Core.List.{List, [], ◌∷◌}
use mathlib.Core.Bool.{Bool, true, false, cond}
use Prim.Native.Nat.{ℕ, ◌-◌, ◌<◌, ◌^◌}
use native.Mathlib.Omega.{arith}
use lib.ListN.{length, take}
use lib.Dec.{leb}
use lib.IntN.{ℤ, pos, negsuc}
use borrow.Author.Tests.{lt-ltb, le-ltb}
use Rattle.octets.specs.Numbers.{Bytes, number, number_at, u16_at, u32_at, u64_at, little}
use Rattle.octets.proofs.NumberLaws.{Bytes-append, Bytes-nil, Bytes-little, number-little, number_below}
use Rattle.format.specs.declared.Profile.{Profile}
use Rattle.format.specs.declared.Header.{Header}
use Rattle.format.specs.declared.Fault.TheVariants.{Cut as CUT}
use Rattle.format.specs.Tests.{◌else◌at◌, got, refused, tests, Outcome, section, spot_at}
use Rattle.format.specs.Header.{class_identifier, header_size_ok, identifier_ok, zeros_from_66, header_rules, signed, header_fields, header}
use Rattle.format.specs.Writing.{bits, header_bytes, writable_header}
use Rattle.format.proofs.Ranges.{FitsSigned, FitsHeader}
use Rattle.format.proofs.Bools.{by_order}
use Rattle.format.proofs.Chains.{Ok, Law, Law-same, tests_elim}
use Rattle.format.proofs.Holds.{header_holds, header_passes, header_writable, writable_header_lem}
use Rattle.format.proofs.Sized.{SizedBack, Sized, sized_r, sized_Law}

-- ---- signed numbers

pub signed-bits : (i : ℤ) → FitsSigned i → signed (bits i) ≡ i
unfolding signed bits
signed-bits (pos n) h = rw (lt-ltb n 2147483648 h)
signed-bits (negsuc n) h =
    let k : 4294967295 - (4294967295 - n) ≡ n = omega arith in
    rw (le-ltb (4294967295 - n) 2147483648 (omega arith), k)

pub bits_fit : (i : ℤ) → FitsSigned i → bits i < 2 ^ 32
unfolding bits
bits_fit (pos n) h = omega arith
bits_fit (negsuc n) h = omega arith

pub signed_fits : (x : ℕ) → x < 2 ^ 32 → FitsSigned (signed x)
unfolding signed
signed_fits x h =
    by_order 2147483648 x
    (λ k. rw (le-ltb x 2147483648 k) (omega arith))
    (λ k. rw (lt-ltb x 2147483648 k) k)

-- ---- the fields of the canonical header

abbrev pub HeaderV : Profile → Header → Type 0
HeaderV profile = Ok FitsHeader (writable_header profile)

pub length_header : (h : Header) → length (header_bytes h) ≡ 76
unfolding header_bytes little
length_header h = refl

module _ (h : Header) (v : FitsHeader h) where
  at20 : u32_at (header_bytes h) 20 ≡ h.flags
  unfolding header_bytes number_at number little
  at20 = number-little 4 h.flags v.flags

  at24 : u32_at (header_bytes h) 24 ≡ h.attributes
  unfolding header_bytes number_at number little
  at24 = number-little 4 h.attributes v.attributes

  at28 : u64_at (header_bytes h) 28 ≡ h.creation
  unfolding header_bytes number_at number little
  at28 = number-little 8 h.creation v.creation

  at36 : u64_at (header_bytes h) 36 ≡ h.access
  unfolding header_bytes number_at number little
  at36 = number-little 8 h.access v.access

  at44 : u64_at (header_bytes h) 44 ≡ h.write
  unfolding header_bytes number_at number little
  at44 = number-little 8 h.write v.write

  at52 : u32_at (header_bytes h) 52 ≡ h.file_size
  unfolding header_bytes number_at number little
  at52 = number-little 4 h.file_size v.file_size

  at56 : u32_at (header_bytes h) 56 ≡ bits h.icon_index
  unfolding header_bytes number_at number little
  at56 = number-little 4 (bits h.icon_index) (bits_fit h.icon_index v.icon_index)

  at60 : u32_at (header_bytes h) 60 ≡ h.command
  unfolding header_bytes number_at number little
  at60 = number-little 4 h.command v.command

  at64 : u16_at (header_bytes h) 64 ≡ h.hotkey
  unfolding header_bytes number_at number little
  at64 = number-little 2 h.hotkey v.hotkey

  size_is : header_size_ok (u32_at (header_bytes h) 0) ≡ true
  unfolding header_bytes number_at number little
  size_is = refl

  identifier_is : identifier_ok (header_bytes h) ≡ true
  unfolding header_bytes number_at number little identifier_ok
  identifier_is = refl

  ten_zeros : zeros_from_66 (header_bytes h) ≡ true
  unfolding header_bytes number_at number little
  ten_zeros = refl

identifier_Bytes : Bytes class_identifier
unfolding little number
identifier_Bytes =
    let e : little 16 (number class_identifier) ≡ class_identifier = refl in
    subst Bytes e (Bytes-little 16 (number class_identifier))

header_bytes_lem : (h : Header) → Bytes (header_bytes h)
unfolding header_bytes
header_bytes_lem h = search (Bytes-append, Bytes-little, Bytes-nil, identifier_Bytes) depth 20 fits 2000

-- ---- the law

header_back : (profile : Profile) (h : Header) → HeaderV profile h → SizedBack (λ s. 76) (λ n. []) (header_rules profile) header_fields (header_bytes h) h
header_back profile h v =
    let t = v.typed in
    let can = header_writable profile h v.can in
    record {
      sized = λ r. sym (length_header h);
      sizable = tt;
      judged =
          header_passes profile (header_bytes h) (record {
            size = size_is h t;
            identifier = identifier_is h t;
            flags = rw (at20 h t) can.flags;
            attributes = rw (at24 h t) can.attributes;
            hotkey = rw (at64 h t) can.hotkey;
            zeros = ten_zeros h t;
          });
      same =
          rw (at20 h t, at24 h t, at28 h t, at36 h t, at44 h t, at52 h t, at56 h t, at60 h t, at64 h t, signed-bits h.icon_index t.icon_index);
    }

header_Sized : (profile : Profile) → Sized 0 76 (λ s. 76) (λ n. []) (header_rules profile) header_fields header_bytes (HeaderV profile)
header_Sized profile = record {
  first = λ s t e. refl;
  low = λ s e. omega arith;
  bytes = λ h v. header_bytes_lem h;
  back = λ h v m. header_back profile h v;
  fits = λ l bs k g c. record {
    valid = record {
      typed = record {
        flags = number_below 4 l 20 bs;
        attributes = number_below 4 l 24 bs;
        creation = number_below 8 l 28 bs;
        access = number_below 8 l 36 bs;
        write = number_below 8 l 44 bs;
        file_size = number_below 4 l 52 bs;
        icon_index = signed_fits (u32_at l 56) (number_below 4 l 56 bs);
        command = number_below 4 l 60 bs;
        hotkey = number_below 2 l 64 bs;
      };
      can =
          let x = header_holds profile l c in
          writable_header_lem profile (header_fields l) (record { flags = x.flags; attributes = x.attributes; hotkey = x.hotkey });
    };
    short = rw length_header (omega arith);
  };
}

-- a test asked twice is one test
header_is : (profile : Profile) (p : ℕ) (s : List ℕ) → header profile p s ≡ sized_r 0 76 (λ s. 76) (λ n. []) (header_rules profile) header_fields p s
header_is profile p s = go (leb 76 (length s)) (tests (section 0 p) (header_rules profile (take 76 s)) (got (header_fields (take 76 s)) 76))
  where
    go : (b : Bool) (r : Outcome Header) → cond b r (refused CUT (spot_at (section 0 p) 0)) ≡ cond b (cond b r (refused CUT (spot_at (section 0 p) 0))) (refused CUT (spot_at (section 0 p) 0))
    go true r = refl
    go false r = refl

pub header-Law : (profile : Profile) → Law (header profile) header_bytes (HeaderV profile)
header-Law profile = Law-same (header_is profile) (sized_Law 0 76 (λ s. 76) (λ n. []) (header_rules profile) header_fields (header_Sized profile))

pub header_size : (profile : Profile) (p : ℕ) (s : List ℕ) (h : Header) (n : ℕ) → header profile p s ≡ got h n → n ≡ 76
header_size profile p s h n e = tests_elim (λ h n. n ≡ 76) (section 0 p) (leb 76 (length s) else CUT at 0 ∷ header_rules profile (take 76 s)) (header_fields (take 76 s)) 76 (λ c. refl) h n e
