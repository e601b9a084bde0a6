-- FORMAT: The record as numbers. 51 of them, in one fixed order.
use Rattle.std.specs.Prelude.{ℕ, zero, suc, ◌+◌, ◌*◌, List, [], ◌∷◌, ◌++◌, Bool, ◌&&◌, get_or, ltb, eqb}
use Rattle.format.specs.declared.Place.{Place}
use Rattle.format.specs.declared.Header.{Header}
use Rattle.format.specs.declared.Link.{Link}
use Rattle.format.specs.declared.Record.{Record}
use Rattle.format.specs.Tests.{place, one_or_0}
use Rattle.format.specs.Header.{signed}
use Rattle.format.specs.Writing.{bits, every}

abbrev pub field_count : ℕ
field_count = 51

-- ---- from the record

-- LinkFlags, FileAttributes, creation, access, write time, FileSize, IconIndex (its 32 bits), ShowCommand, HotKey; LinkInfo flags, long head,
-- drive type, serial, label kind (0 byte, 1 Unicode), network flags, provider type, Unicode names
unfoldable pub numbers_of : Record → List ℕ
numbers_of q =
    q.header.flags
    ∷ q.header.attributes
    ∷ q.header.creation
    ∷ q.header.access
    ∷ q.header.write
    ∷ q.header.file_size
    ∷ bits q.header.icon_index
    ∷ q.header.command
    ∷ q.header.hotkey
    ∷ q.link.flags
    ∷ one_or_0 q.link.long
    ∷ q.link.drive
    ∷ q.link.serial
    ∷ one_or_0 q.link.label_unicode
    ∷ q.link.network_flags
    ∷ q.link.provider
    ∷ one_or_0 q.link.network_unicode
    ∷ []

-- place and length of each
abbrev pub pairs : List Place → List ℕ
pairs [] = []
pairs (b ∷ bs) = b.at ∷ b.len ∷ pairs bs

-- the numbers, then the row slot by slot
unfoldable pub fields_of : Record → List ℕ
unfolding numbers_of
fields_of q = numbers_of q ++ pairs q.places

-- ---- to the record: which numbers are one, and which one they are

module _ (f : List ℕ) where
  abbrev pub word_at : ℕ → Bool
  word_at i = ltb (get_or f i 0) 4294967296

  abbrev pub flag_at : ℕ → Bool
  flag_at i = ltb (get_or f i 0) 2

  unfoldable pub header_numbers : Bool
  header_numbers = every (word_at 0 ∷ word_at 1 ∷ word_at 5 ∷ word_at 6 ∷ word_at 7 ∷ ltb (get_or f 8 0) 65536 ∷ [])

  unfoldable pub info_numbers : Bool
  info_numbers = every (word_at 9 ∷ flag_at 10 ∷ word_at 11 ∷ word_at 12 ∷ flag_at 13 ∷ word_at 14 ∷ word_at 15 ∷ flag_at 16 ∷ [])

  -- each number fits its field
  unfoldable pub are_record : Bool
  unfolding header_numbers info_numbers
  are_record = header_numbers && info_numbers

  abbrev pub true_at : ℕ → Bool
  true_at i = eqb (get_or f i 0) 1

  unfoldable pub header_from : Header
  header_from = record {
    flags = get_or f 0 0;
    attributes = get_or f 1 0;
    creation = get_or f 2 0;
    access = get_or f 3 0;
    write = get_or f 4 0;
    file_size = get_or f 5 0;
    icon_index = signed (get_or f 6 0);
    command = get_or f 7 0;
    hotkey = get_or f 8 0;
  }

  unfoldable pub link_from : Link
  link_from = record {
    flags = get_or f 9 0;
    long = true_at 10;
    drive = get_or f 11 0;
    serial = get_or f 12 0;
    label_unicode = true_at 13;
    network_flags = get_or f 14 0;
    provider = get_or f 15 0;
    network_unicode = true_at 16;
  }

  -- the place in slot k
  abbrev pub slot_at : ℕ → Place
  slot_at k = place (get_or f (17 + 2 * k) 0) (get_or f (17 + 2 * k + 1) 0)

  -- n slots from k on
  abbrev pub row_from : ℕ → ℕ → List Place
  row_from k zero = []
  row_from k (suc n) = slot_at k ∷ row_from (k + 1) n

  unfoldable pub places_from : List Place
  places_from = row_from 0 17

  unfoldable pub record_from : Record
  unfolding header_from link_from places_from
  record_from = record { header = header_from; link = link_from; places = places_from }
