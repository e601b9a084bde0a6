-- Where the parts of a key stand in the shortcut, and what they show there.
use Rattle.std.specs.Prelude.{ℕ, ◌+◌, ◌≤◌, ◌≡◌, List, length, Option, Some, None}
use Rattle.std.specs.Bool.{then_some}
use Rattle.format.specs.declared.Place.{Place}
use Rattle.format.specs.declared.Record.{Record}
use Rattle.format.specs.Shortcut.{most}
use Rattle.format.specs.Contents.{bytes_at}
use Rattle.format.specs.Target.{has_target}
use Rattle.format.specs.Key.{Part, no_part, some_part, Key, block_text, environment}
use Rattle.blocks.specs.Steps.Walk.{block_from}
use Rattle.target.specs.declared.Texts.{Texts}
use Rattle.target.specs.Steps.Texts.{texts_of, Stands, texts_length, texts_bytes}
use Rattle.keying.specs.declared.KeyParts.{KeyParts}

-- ---- the target

abbrev pub target_part : List ℕ → Record → Option Texts
target_part s r = then_some (has_target r) (texts_of s r)

abbrev pub target_shown : List ℕ → Option Texts → Part
target_shown s (Some t) = some_part (texts_bytes s t)
target_shown s None = no_part

-- the presence byte, the length and the bytes
abbrev pub target_length : Option Texts → ℕ
target_length (Some t) = 5 + texts_length t
target_length None = 5

abbrev pub TargetStands : List ℕ → Option Texts → Type 0
TargetStands s (Some t) = Stands s t × (length s ≤ most)
TargetStands s None = Unit {0}

-- ---- a part that is one body

abbrev pub body_shown : List ℕ → Option Place → Part
body_shown s (Some b) = some_part (bytes_at s b)
body_shown s None = no_part

abbrev pub body_length : Option Place → ℕ
body_length (Some b) = 5 + b.len
body_length None = 5

abbrev pub BodyStands : List ℕ → Option Place → Type 0
BodyStands s (Some b) = (b.at + b.len ≤ length s) × (length s ≤ most)
BodyStands s None = Unit {0}

-- b is where the byte string of the block a stands
pub record TextOf (s : List ℕ) (a b : Place) : Type 0 where
  pub inside : b.at + b.len ≤ length s
  pub is : bytes_at s b ≡ block_text s a

-- a field of the row of signatures leads to a block, or is 0
pub record BlockAt (s : List ℕ) (field : ℕ) : Type 0 where
  pub small : length s ≤ most
  pub reached : field ≤ length s
  pub inside : (block_from s field).at + (block_from s field).len ≤ length s
  pub sized : ((block_from s field).len ≡ 0 → ⊥) → 8 ≤ (block_from s field).len

-- p shows the environment that the block b holds
pub record EnvironmentOf (s : List ℕ) (b : Place) (p : Option Place) : Type 0 where
  pub stands : BodyStands s p
  pub is : body_shown s p ≡ environment s b

-- ---- the whole key

unfoldable pub key_shown : List ℕ → KeyParts → Key
key_shown s k = record {
  unicode = k.unicode;
  target = target_shown s k.target;
  arguments = body_shown s k.arguments;
  workdir = body_shown s k.workdir;
  environment = body_shown s k.environment;
}

abbrev pub key_length : KeyParts → ℕ
key_length k = 1 + (target_length k.target + (body_length k.arguments + (body_length k.workdir + body_length k.environment)))

pub record KeyStands (s : List ℕ) (k : KeyParts) : Type 0 where
  pub target : TargetStands s k.target
  pub arguments : BodyStands s k.arguments
  pub workdir : BodyStands s k.workdir
  pub environment : BodyStands s k.environment
