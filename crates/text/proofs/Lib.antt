mod Sign
