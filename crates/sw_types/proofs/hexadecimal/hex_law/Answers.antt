use Rattle.sw_types.proofs.HexTexts.{bytes_of_hex-hex_text, bytes_of_hex-short}
use Rattle.sw_types.proofs.hexadecimal.hex_law.Goals as goal

pub returns-clause-read_again : goal.returns-clause-read_again
returns-clause-read_again c = bytes_of_hex-hex_text

pub returns-clause-short : goal.returns-clause-short
returns-clause-short c = bytes_of_hex-short
