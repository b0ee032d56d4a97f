-- The settings text by example: what reading and writing answer, computed on the definitions.
use mathlib.Core.Path.{◌≡◌, refl}
use Rattle.text.specs.Begins.{begins}
use Rattle.text.specs.Decimal.{digits, decimal_of, value_from, is_digit, digits_in, same, is_decimal, number_at}
use Rattle.text.specs.Quoted.{bytes_of}
use Rattle.settings.specs.Lines.{line_of, line_at}
use Rattle.settings.specs.Reading.{settings, refused, form_of, checked_of, read_of}
use Rattle.link_rules.specs.Rules.{wrong_addresses, wrong_tries}
use Rattle.settings.specs.Rules.{rule_of}
use Rattle.settings.specs.Text.{text_of}
use Rattle.settings.specs.Writing.{written, refused as refusedWrite, write_of, left_by}

-- read: document 01's text, and the smallest and largest numbers
pub read_samples : (read_of (bytes_of "own=2\npeer=5\ntries=2\n") ≡ settings 2 5 2)
    × (read_of (bytes_of "own=0\npeer=125\ntries=8\n") ≡ settings 0 125 8)
    × (read_of (bytes_of "own=10\npeer=100\ntries=1\n") ≡ settings 10 100 1)
unfolding digits decimal_of value_from is_digit digits_in same is_decimal number_at begins line_at form_of checked_of wrong_addresses wrong_tries rule_of read_of
read_samples = (refl, refl, refl)

-- 20: a leading zero, a line feed missing or one too many, lines exchanged or missing, a number above 255, another end of
-- line, a sign, a blank, no digit, nothing at all
pub form_samples : (read_of (bytes_of "own=02\npeer=5\ntries=2\n") ≡ refused 20)
    × (read_of (bytes_of "own=2\npeer=5\ntries=00\n") ≡ refused 20)
    × (read_of (bytes_of "own=2\npeer=5\ntries=2") ≡ refused 20)
    × (read_of (bytes_of "own=2\npeer=5\ntries=2\n\n") ≡ refused 20)
    × (read_of (bytes_of "peer=5\nown=2\ntries=2\n") ≡ refused 20)
    × (read_of (bytes_of "own=2\npeer=5\n") ≡ refused 20)
    × (read_of (bytes_of "own=2\npeer=5\ntries=256\n") ≡ refused 20)
    × (read_of (bytes_of "own=258\npeer=5\ntries=2\n") ≡ refused 20)
    × (read_of (bytes_of "own=2\r\npeer=5\r\ntries=2\r\n") ≡ refused 20)
    × (read_of (bytes_of "own=+2\npeer=5\ntries=2\n") ≡ refused 20)
    × (read_of (bytes_of "own= 2\npeer=5\ntries=2\n") ≡ refused 20)
    × (read_of (bytes_of "own=\npeer=5\ntries=2\n") ≡ refused 20)
    × (read_of (bytes_of "") ≡ refused 20)
unfolding digits decimal_of value_from is_digit digits_in same is_decimal number_at begins line_at form_of checked_of wrong_addresses wrong_tries rule_of read_of
form_samples = (refl, refl, refl, refl, refl, refl, refl, refl, refl, refl, refl, refl, refl)

-- 18 before 19, and both behind 20; an old program given the second form of the text
pub rule_samples : (read_of (bytes_of "own=126\npeer=5\ntries=2\n") ≡ refused 18)
    × (read_of (bytes_of "own=2\npeer=255\ntries=2\n") ≡ refused 18)
    × (read_of (bytes_of "own=5\npeer=5\ntries=2\n") ≡ refused 18)
    × (read_of (bytes_of "own=5\npeer=5\ntries=9\n") ≡ refused 18)
    × (read_of (bytes_of "own=2\npeer=5\ntries=0\n") ≡ refused 19)
    × (read_of (bytes_of "own=2\npeer=5\ntries=9\n") ≡ refused 19)
    × (read_of (bytes_of "own=126\npeer=5\ntries=09\n") ≡ refused 20)
    × (read_of (bytes_of "form=2\nown=2\npeer=5\ntries=2\nprio=low\n") ≡ refused 20)
unfolding digits decimal_of value_from is_digit digits_in same is_decimal number_at begins line_at form_of checked_of wrong_addresses wrong_tries rule_of read_of
rule_samples = (refl, refl, refl, refl, refl, refl, refl, refl)

-- written: 21 bytes, and what stood behind them stays; 18, 19, 10 in this order
pub write_samples : (text_of 2 5 2 ≡ bytes_of "own=2\npeer=5\ntries=2\n")
    × (write_of 2 5 2 21 ≡ written 21)
    × (left_by (bytes_of "--------------------------") (text_of 2 5 2) (write_of 2 5 2 26) ≡ bytes_of "own=2\npeer=5\ntries=2\n-----")
    × (write_of 2 5 2 20 ≡ refusedWrite 10)
    × (write_of 126 5 9 0 ≡ refusedWrite 18)
    × (write_of 2 2 2 26 ≡ refusedWrite 18)
    × (write_of 2 5 9 0 ≡ refusedWrite 19)
unfolding digits decimal_of line_of text_of wrong_addresses wrong_tries rule_of write_of
write_samples = (refl, refl, refl, refl, refl, refl, refl)
