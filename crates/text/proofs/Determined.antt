-- No second outcome fits the promise of a public call of `text`: two outcomes that its promise allows are the same.
use mathlib.Core.Path.{refl}
use Rattle.ground.proofs.DeterminedLaws.{fixed, gives}
use Rattle.ground.specs.Determined.{Determined}
use Rattle.text.specs.contracts.decimal.decimal_len as decimal_len
use Rattle.text.proofs.decimal.decimal_len.Reads as decimal_len_reads
use Rattle.text.specs.contracts.decimal.get_decimal as get_decimal
use Rattle.text.proofs.decimal.get_decimal.Reads as get_decimal_reads
use Rattle.text.specs.contracts.decimal.put_decimal as put_decimal
use Rattle.text.proofs.decimal.put_decimal.Reads as put_decimal_reads
use Rattle.text.specs.contracts.hex.put_hex as put_hex
use Rattle.text.proofs.hex.put_hex.Reads as put_hex_reads
use Rattle.text.specs.contracts.place.begins_at as begins_at
use Rattle.text.proofs.place.begins_at.Reads as begins_at_reads
use Rattle.text.specs.contracts.place.byte_is_at as byte_is_at
use Rattle.text.proofs.place.byte_is_at.Reads as byte_is_at_reads
use Rattle.text.specs.contracts.place.put_byte as put_byte
use Rattle.text.proofs.place.put_byte.Reads as put_byte_reads
use Rattle.text.specs.contracts.place.put_bytes as put_bytes
use Rattle.text.proofs.place.put_bytes.Reads as put_bytes_reads

pub record Calls : Type 0 where
  pub put_byte : Determined put_byte.ended put_byte_reads.Learnt
  pub put_bytes : Determined put_bytes.ended put_bytes_reads.Learnt
  pub put_hex : Determined put_hex.ended put_hex_reads.Learnt
  pub put_decimal : Determined put_decimal.ended put_decimal_reads.Learnt
  pub decimal_len : Determined decimal_len.ended decimal_len_reads.Learnt
  pub get_decimal : Determined get_decimal.ended get_decimal_reads.Learnt
  pub byte_is_at : Determined byte_is_at.ended byte_is_at_reads.Learnt
  pub begins_at : Determined begins_at.ended begins_at_reads.Learnt

pub determined : Calls
determined =
    record {
      put_byte = gives (λ κs a x e p. (p.place, p.buffer)) (λ κs x y e. e) (λ κs a u v p i. (p i, (tt, (tt, tt))));
      put_bytes = gives (λ κs a x e p. (p.place, p.buffer)) (λ κs x y e. e) (λ κs a u v p i. (p i, (tt, (tt, tt))));
      put_hex = gives (λ κs a x e p. (p.place, p.buffer)) (λ κs x y e. e) (λ κs a u v p i. (p i, (tt, (tt, tt))));
      put_decimal = gives (λ κs a x e p. (p.place, p.buffer)) (λ κs x y e. e) (λ κs a u v p i. (p i, (tt, (tt, tt))));
      decimal_len = fixed (λ κs a u v. refl);
      get_decimal = fixed (λ κs a u v. refl);
      byte_is_at = fixed (λ κs a u v. refl);
      begins_at = fixed (λ κs a u v. refl);
    }
