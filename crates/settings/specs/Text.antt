-- Document 01, "Settings text: `own=2`, `peer=5`, `tries=2`, in this order, each ended by a line feed; …; nothing else."
-- Read `text_of`.
use Rattle.std.specs.Prelude.{List, ◌++◌, ◌≡◌, ℕ, ◌≤◌}
use Rattle.settings.specs.Lines.{own=, peer=, tries=, line_of}

-- the text as a picture of its bytes
unfoldable pub text_of : ℕ → ℕ → ℕ → List ℕ
text_of own peer tries = line_of own= own ++ line_of peer= peer ++ line_of tries= tries

-- a text is the picture of three numbers from 0 to 255
pub record Pictured (text : List ℕ) (own peer tries : ℕ) : Type 0 where
  pub picture : text ≡ text_of own peer tries
  pub own_byte : own ≤ 255
  pub peer_byte : peer ≤ 255
  pub tries_byte : tries ≤ 255
